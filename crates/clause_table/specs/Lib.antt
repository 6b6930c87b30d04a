pub mod Clause
pub mod Held
