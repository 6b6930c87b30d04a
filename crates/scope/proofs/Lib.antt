pub mod Tags
pub mod Tokens
pub mod Imports
pub mod Leads
