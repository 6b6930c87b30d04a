pub mod Left
pub mod Laws
pub mod Entries
pub mod Quotes
pub mod Examples
pub mod Samples
pub mod Progress
