pub mod Ticks
pub mod Loads
pub mod Stores
pub mod Shortage
