pub mod Fates
pub mod Text
pub mod Takes
pub mod Steps
pub mod Sections
pub mod Plays
