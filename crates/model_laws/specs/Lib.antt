pub mod Histories
pub mod Collector
pub mod Reach
pub mod Ways
