pub mod Oid
pub mod Unreached
