pub mod WritingLemmas
pub mod PageLemmas
pub mod ReadingLemmas
pub mod SectionLemmas
pub mod BeginLemmas
pub mod SumLemmas
pub mod GeneratingLemmas
pub mod RunLemmas
pub mod SpawningLemmas
pub mod TellingLemmas
pub mod WordLemmas
pub mod StatusLemmas
pub mod TableLemmas
mod ReplayLemmas
pub mod ReaderLemmas
pub mod SharingLemmas
pub mod SourceLemmas
