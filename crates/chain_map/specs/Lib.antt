pub mod Pairs
pub mod Place
pub mod Hash
pub mod Leaves
pub mod Marks
pub mod Laid
pub mod Over
