pub mod FrontAndRest
pub mod WritingLemmas
