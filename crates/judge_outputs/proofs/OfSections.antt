pub mod TurnLemmas
pub mod RowLemmas
