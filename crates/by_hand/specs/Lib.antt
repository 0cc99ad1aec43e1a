pub mod Steps
pub mod Decided
pub mod Idle
pub mod Worked
