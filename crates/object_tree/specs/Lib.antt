pub mod Words
pub mod Tree
