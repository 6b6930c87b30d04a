pub mod Stage
pub mod Refusal
pub mod Writing
pub mod Collected
