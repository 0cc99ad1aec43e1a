pub mod Goes
pub mod Moves
pub mod Hand
pub mod Holding
pub mod Open
pub mod Finishing
