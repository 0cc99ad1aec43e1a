pub mod Maps
pub mod Ends
mod SessionExamples
