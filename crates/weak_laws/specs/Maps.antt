pub mod Tries
pub mod Steps
pub mod Calls
pub mod Private
pub mod MapLaws
pub mod Examples
pub mod Tidy
pub mod Within
