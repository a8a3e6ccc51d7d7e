pub mod Ties
pub mod Blocks
