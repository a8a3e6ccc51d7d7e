pub mod Ephemerons
pub mod Takes
pub mod Writes
pub mod Listings
