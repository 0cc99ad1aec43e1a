pub mod Rows
pub mod Shown
pub mod Stepping
pub mod ReadingExamples
