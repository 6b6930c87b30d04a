pub mod Signed
pub mod Ends
