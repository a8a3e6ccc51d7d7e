pub mod Standing
pub mod Running
pub mod Keepers
