pub mod DifferLemmas
pub mod EntryLemmas
pub mod ListLemmas
pub mod PlainLemmas
pub mod TakeLemmas
pub mod TextLemmas
pub mod TurnLemmas
