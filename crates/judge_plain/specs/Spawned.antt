pub mod Explains
pub mod Parts
pub mod Prelude
pub mod Told
