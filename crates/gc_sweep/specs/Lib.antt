pub mod Walks
pub mod Pruning
pub mod Sweeping
pub mod Counting
pub mod Emptiness
