pub mod Alike
pub mod Blindness
pub mod Twins
pub mod Idling
pub mod Rows
