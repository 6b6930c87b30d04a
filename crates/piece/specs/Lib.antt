pub mod Decimal
pub mod Piece
pub mod Run
pub mod Found
