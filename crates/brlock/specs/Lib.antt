pub mod Ranges
pub mod Answer
pub mod Scans
