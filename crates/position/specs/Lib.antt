pub mod Line
pub mod Margin
pub mod Window
