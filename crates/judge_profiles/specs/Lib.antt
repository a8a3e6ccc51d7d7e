pub mod Explains
pub mod Laws
pub mod Profiles
pub mod Shown
