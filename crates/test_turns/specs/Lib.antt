pub mod Fresh
pub mod Sections
