pub mod Run
pub mod Held
