pub mod DigitLaws
pub mod Sizes
pub mod Numeral
