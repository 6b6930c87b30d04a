pub mod Searches
pub mod Picked
