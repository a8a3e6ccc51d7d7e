pub mod HeadingLemmas
pub mod LineLemmas
pub mod TextLemmas
pub mod ReadLemmas
pub mod AnswerLemmas
