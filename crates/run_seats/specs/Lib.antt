pub mod Idling
pub mod Seating
pub mod Stopping
pub mod Pool
pub mod Shared
pub mod Beds
