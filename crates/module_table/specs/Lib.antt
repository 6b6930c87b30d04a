pub mod Lead
pub mod Definition
pub mod Module
