pub mod Breaks
pub mod Acks
