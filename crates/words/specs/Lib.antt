pub mod Decimal
pub mod Flag
pub mod Hex
pub mod Octets
pub mod Words
