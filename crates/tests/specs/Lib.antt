pub mod Counting
pub mod Adding
pub mod Rule
pub mod Waiting
