pub mod Asking
pub mod Marking
pub mod Listing
pub mod Verdicts
