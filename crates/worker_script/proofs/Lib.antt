pub mod Parts
pub mod Front
pub mod Split
pub mod Values
pub mod Counts
pub mod Lists
pub mod Facts
pub mod Tallies
pub mod Faults
pub mod Planning
pub mod Operands
pub mod Sound
pub mod SoundOperands
pub mod SoundCalls
pub mod SoundText
pub mod BackText
pub mod BackNumbers
pub mod BackOptions
pub mod BackCalls
pub mod BackTokens
pub mod BackLines
pub mod BackScript
mod FitsExamples
mod SpellingExamples
mod Reasons
