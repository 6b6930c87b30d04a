pub mod Symbols
pub mod Counts
pub mod Parts
pub mod Laid
