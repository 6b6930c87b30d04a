pub mod Misplaced
pub mod Refusal
pub mod Spread
pub mod Sorted
