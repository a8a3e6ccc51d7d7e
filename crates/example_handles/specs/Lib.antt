pub mod Resources
pub mod Handling
