pub mod Word
pub mod Growth
