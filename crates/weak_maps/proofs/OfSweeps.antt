pub mod SpanLemmas
pub mod SettleLemmas
pub mod BlockLemmas
pub mod LawLemmas
pub mod RefusedBodies
