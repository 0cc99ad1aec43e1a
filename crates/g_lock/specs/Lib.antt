pub mod Holds
pub mod Answer
pub mod Scans
