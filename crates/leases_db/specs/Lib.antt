pub mod Names
pub mod Lending
pub mod Rows
pub mod Breaks
pub mod Refs
pub mod Granted
pub mod Granting
