pub mod Faults
pub mod Counting
pub mod Words
pub mod Reply
pub mod Ids
pub mod Values
pub mod Setup
pub mod Call
