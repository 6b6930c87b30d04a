pub mod Joined
pub mod Symbols
