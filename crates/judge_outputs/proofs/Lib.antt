mod InputLemmas
mod TextLemmas
mod TurnLemmas
mod VersionLemmas
mod WroteLemmas
pub mod ReplayLemmas
pub mod OfSections
pub mod OfTexts
