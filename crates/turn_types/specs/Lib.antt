pub mod Journal
pub mod Shown
pub mod Calls
pub mod Ends
pub mod Beside
