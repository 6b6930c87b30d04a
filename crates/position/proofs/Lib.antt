pub mod LineLaws
pub mod MarginLaws
pub mod WindowLaws
