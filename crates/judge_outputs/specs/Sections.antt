pub mod Machine
pub mod Turns
pub mod Answer
pub mod Rows
