pub mod Heads
pub mod Loads
pub mod Stores
