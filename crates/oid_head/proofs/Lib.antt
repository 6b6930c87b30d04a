pub mod Meaning
pub mod Unreached
pub mod Reaching
pub mod Least
