pub mod Marking
pub mod Beside
