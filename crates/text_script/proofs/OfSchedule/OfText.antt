pub mod Cutting
pub mod LineLemmas
pub mod TextLemmas
pub mod OnlyLemmas
pub mod ReadingLemmas
pub mod ReplayLemmas
pub mod AnswerLemmas
