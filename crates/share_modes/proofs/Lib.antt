pub mod InTheWay
pub mod Once
pub mod Kept
pub mod EntryExamples
mod SharingExamples
