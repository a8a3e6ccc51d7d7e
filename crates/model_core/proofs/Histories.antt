-- What holds after every history, and what a front tells of one.
pub mod HistoryLemmas
pub mod FrontLemmas
pub mod WellFormedLemmas
pub mod NumberLemmas
pub mod ShapeAfterLemmas
pub mod TallyLemmas
pub mod AnswerLemmas
pub mod SizesLemmas
pub mod EndedLemmas
pub mod FreshLemmas
pub mod FieldLemmas
pub mod Rows
