pub mod Pooling
pub mod Keeping
