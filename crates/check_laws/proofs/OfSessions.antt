pub mod Calling
pub mod Rows
