pub mod Span
pub mod Decimal
pub mod Pieces
pub mod Local
pub mod Marks
pub mod Answered
