pub mod Heads
pub mod Aware
