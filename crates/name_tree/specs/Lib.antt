pub mod Key
pub mod Tree
