pub mod Landmark
pub mod Fields
pub mod Members
