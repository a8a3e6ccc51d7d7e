-- What the entries of a collection take and leave.
pub mod WipeLemmas
pub mod CollectionLemmas
pub mod CutLemmas
pub mod MarkLemmas
pub mod CollectedLemmas
pub mod RegistrationLemmas
