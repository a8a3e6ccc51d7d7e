pub mod WalkSteps
pub mod Tracing
pub mod LoadSteps
pub mod Adding
pub mod Going
pub mod Visiting
pub mod BlockSteps
pub mod Leading
