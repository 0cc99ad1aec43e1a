pub mod Renumbering
pub mod ChainLists
pub mod Journals
pub mod Padding
pub mod Lawful
pub mod RuleExamples
