pub mod Fault
pub mod Hint
