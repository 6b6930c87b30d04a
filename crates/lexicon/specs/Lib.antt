pub mod Byte
pub mod Word
