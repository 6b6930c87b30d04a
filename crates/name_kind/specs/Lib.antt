pub mod Need
pub mod Clause
pub mod Serve
