pub mod Rounding
pub mod Emptying
