pub mod NumberLemmas
pub mod RowLemmas
pub mod ShapeLemmas
pub mod LineLemmas
pub mod ReadLemmas
pub mod WritableLemmas
mod AnswerLemmas
pub mod OfMachine
pub mod OfSections
