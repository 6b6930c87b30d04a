pub mod Holder
