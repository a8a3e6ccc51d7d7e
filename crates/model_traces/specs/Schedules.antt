pub mod Scheduled
pub mod Sameness
pub mod Sizes
pub mod Pools
