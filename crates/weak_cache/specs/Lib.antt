pub mod Uses
pub mod Caches
pub mod Counts
pub mod Passes
pub mod Calls
pub mod Laws
