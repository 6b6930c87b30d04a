pub mod Labels
pub mod Placing
pub mod Items
