pub mod Going
pub mod Moving
pub mod Hands
pub mod Holding
pub mod Finishing
pub mod Becoming
