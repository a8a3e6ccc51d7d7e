pub mod RowLemmas
pub mod RefusedReplies
pub mod SaidLemmas
