pub mod Chain
pub mod Keyed
