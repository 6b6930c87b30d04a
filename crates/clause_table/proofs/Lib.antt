pub mod Rows
pub mod Clauses
pub mod OneRow
