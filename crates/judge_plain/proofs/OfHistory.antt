pub mod ExactLemmas
pub mod PlayLemmas
pub mod RangeLemmas
pub mod RowLemmas
pub mod TextLemmas
