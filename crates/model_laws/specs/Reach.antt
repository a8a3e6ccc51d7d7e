pub mod Ways
pub mod Walks
pub mod Exploring
pub mod Asking
