pub mod Served
pub mod Twice
pub mod Offering
pub mod Known
pub mod Using
pub mod Numbers
pub mod Named
pub mod Reading
