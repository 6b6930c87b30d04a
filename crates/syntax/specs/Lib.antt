pub mod Parsing
pub mod Placing
pub mod Parsed
