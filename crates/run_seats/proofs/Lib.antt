pub mod Places
mod Growing
mod Closed
mod Stopped
mod Opening
mod Seated
pub mod Refused
pub mod OfPool
pub mod OfShared
pub mod OfBeds
