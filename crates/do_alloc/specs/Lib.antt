pub mod Young
pub mod Pools
