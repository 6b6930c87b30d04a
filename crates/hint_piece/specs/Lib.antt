pub mod Use
pub mod Followed
