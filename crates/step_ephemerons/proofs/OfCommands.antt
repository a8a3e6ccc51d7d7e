pub mod Outcomes
pub mod Finding
pub mod HeadSteps
pub mod WeakAdvances
pub mod WeakLoadSteps
pub mod WeakStoreSteps
pub mod Plain
