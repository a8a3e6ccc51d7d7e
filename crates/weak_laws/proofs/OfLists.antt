pub mod ListLemmas
pub mod FoundLemmas
pub mod StepLemmas
pub mod OrderLemmas
pub mod LabelLemmas
pub mod HeldLemmas
