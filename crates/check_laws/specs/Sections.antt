pub mod Orders
pub mod Passed
pub mod Printing
pub mod Seen
pub mod Waiting
