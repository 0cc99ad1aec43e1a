pub mod Shown
pub mod Pages
pub mod Rows
pub mod Opens
