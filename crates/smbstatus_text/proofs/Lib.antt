pub mod Lists
pub mod Telling
pub mod Counted
pub mod Found
mod PageExamples
