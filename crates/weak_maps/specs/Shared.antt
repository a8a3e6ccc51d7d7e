pub mod Sharing
pub mod Orders
