pub mod Bit
pub mod Tree
