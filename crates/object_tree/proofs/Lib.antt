pub mod Seeking
pub mod Parents
pub mod Numbers
