pub mod MakeLemmas
pub mod PreludeLemmas
pub mod StepLemmas
pub mod TellLemmas
pub mod TextLemmas
