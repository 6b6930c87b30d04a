pub mod Marked
pub mod Grammar
pub mod Module
pub mod OfTree
