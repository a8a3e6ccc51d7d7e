pub mod Opened
pub mod Idling
pub mod Taken
pub mod Standing
