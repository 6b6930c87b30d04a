pub mod Token
pub mod Import
pub mod Lead
pub mod Tag
pub mod Held
