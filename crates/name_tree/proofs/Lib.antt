pub mod Both
pub mod Keyed
pub mod Naming
