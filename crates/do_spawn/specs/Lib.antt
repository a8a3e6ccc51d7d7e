pub mod Expanding
pub mod Opening
