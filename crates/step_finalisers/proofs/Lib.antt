pub mod WorkSteps
pub mod RegisterSteps
pub mod RunSteps
pub mod TakeSteps
pub mod LookSteps
pub mod Looks
pub mod Plain
pub mod PlainLooks
