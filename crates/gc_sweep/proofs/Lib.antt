pub mod Prunings
pub mod Sweepings
pub mod OwnPools
pub mod Returns
