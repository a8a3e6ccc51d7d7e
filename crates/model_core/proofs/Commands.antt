-- What one command does to a state.
pub mod OutcomeLemmas
pub mod MoveLemmas
pub mod ShapeLemmas
pub mod LeavesLemmas
pub mod DomainStepLemmas
pub mod FrameLemmas
pub mod SerialLemmas
