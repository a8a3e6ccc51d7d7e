pub mod Blindness
pub mod Idle
