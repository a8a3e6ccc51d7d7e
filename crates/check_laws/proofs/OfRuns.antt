pub mod Explaining
pub mod Keeping
pub mod Rows
pub mod Repeating
