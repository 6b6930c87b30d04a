pub mod Chain
pub mod Key
