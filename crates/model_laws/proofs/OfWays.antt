pub mod Led
pub mod Unled
