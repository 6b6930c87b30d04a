pub mod Nothing
pub mod Places
