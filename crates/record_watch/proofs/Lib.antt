pub mod Boxes
mod WatchExamples
