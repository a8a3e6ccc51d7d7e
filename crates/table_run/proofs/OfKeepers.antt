pub mod DomainLemmas
pub mod TableLemmas
pub mod MapLemmas
