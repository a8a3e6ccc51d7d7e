pub mod Collectors
pub mod Plain
pub mod Labels
pub mod Driven
pub mod Refused
pub mod OfDomains
