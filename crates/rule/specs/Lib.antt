pub mod Rule
pub mod Each
