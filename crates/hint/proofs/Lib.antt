pub mod PrintingLaws
pub mod Turns
pub mod Answers
pub mod Laws
pub mod Examples
