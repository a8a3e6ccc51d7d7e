-- What is reachable.
pub mod ReachLemmas
pub mod ReachSizeLemmas
pub mod LabelListLemmas
pub mod OpenedLemmas
