pub mod Appending
pub mod Taking
pub mod Ordering
pub mod Turning
pub mod Living
pub mod Playing
pub mod Pieces
pub mod Ending
