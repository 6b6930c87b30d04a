pub mod Class
pub mod Stage
