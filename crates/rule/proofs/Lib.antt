pub mod Judged
pub mod Each
