pub mod Clashing
pub mod Faults
