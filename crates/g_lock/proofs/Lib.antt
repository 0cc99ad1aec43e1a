pub mod Found
pub mod Deciding
pub mod Held
pub mod Agreeing
pub mod GivenUp
mod LockExamples
