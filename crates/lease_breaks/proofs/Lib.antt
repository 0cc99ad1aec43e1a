pub mod ByOwner
pub mod Sets
mod BreakExamples
