pub mod Explains
pub mod Rows
pub mod Steps
