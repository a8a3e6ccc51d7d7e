pub mod FreshDomains
pub mod Resting
pub mod SectionLemmas
