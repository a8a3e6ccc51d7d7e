pub mod Ending
pub mod Scheduling
pub mod Calling
pub mod Rows
