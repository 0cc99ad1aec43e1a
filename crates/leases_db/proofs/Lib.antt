pub mod Maps
pub mod Lists
pub mod Settled
pub mod Due
pub mod Grants
pub mod Sets
pub mod OtherFile
mod LeaseExamples
