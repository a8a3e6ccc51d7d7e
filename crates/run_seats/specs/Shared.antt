pub mod Sharing
pub mod Idling
pub mod Leaving
pub mod Standing
