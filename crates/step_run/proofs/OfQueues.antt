pub mod Queues
pub mod LookSteps
