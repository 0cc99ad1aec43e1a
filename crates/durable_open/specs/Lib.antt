pub mod Deadlines
pub mod Keeping
pub mod Taking
pub mod Naming
pub mod Sweep
