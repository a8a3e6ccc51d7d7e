pub mod Plain
pub mod Besides
pub mod Rewriting
pub mod LookSteps
pub mod ReadSteps
pub mod DarkenSteps
