pub mod Explained
pub mod Sections
pub mod Repeated
