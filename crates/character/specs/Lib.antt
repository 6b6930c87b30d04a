pub mod Cut
pub mod Character
