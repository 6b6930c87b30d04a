pub mod Tested
pub mod Search
pub mod Hits
pub mod Collected
pub mod Step
pub mod Pigeonhole
pub mod Walk
