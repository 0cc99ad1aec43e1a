pub mod Stamps
pub mod Law
pub mod Ready
