pub mod Bytes
pub mod Places
pub mod Words
pub mod Tables
