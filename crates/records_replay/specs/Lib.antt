pub mod Rule
pub mod Behind
