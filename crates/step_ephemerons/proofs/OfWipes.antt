pub mod EmptiedKeys
pub mod Emptying
pub mod WipeSteps
pub mod Plain
