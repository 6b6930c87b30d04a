pub mod Below
pub mod Ranges
pub mod Spreading
pub mod Sorting
pub mod Judging
