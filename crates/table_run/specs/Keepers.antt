pub mod Keepers
pub mod Answers
