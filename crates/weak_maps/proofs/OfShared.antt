pub mod SharingLemmas
pub mod CommandLemmas
pub mod OrderLemmas
