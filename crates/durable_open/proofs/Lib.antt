pub mod Loops
pub mod Sets
pub mod Named
pub mod Sweeping
pub mod Reconnects
pub mod Expiring
