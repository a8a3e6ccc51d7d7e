pub mod Paces
pub mod Idling
pub mod Lone
