pub mod Ties
pub mod Walk
pub mod Blocks
