pub mod Working
pub mod Heads
pub mod Filling
pub mod Roots
pub mod Held
pub mod Sharing
