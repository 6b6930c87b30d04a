pub mod Runs
pub mod Clipped
