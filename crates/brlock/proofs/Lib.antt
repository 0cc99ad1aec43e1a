pub mod Finding
pub mod Deciding
pub mod Dropping
pub mod Sets
mod RecordExamples
