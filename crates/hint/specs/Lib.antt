pub mod Print
pub mod Answer
