pub mod Commands
pub mod Looks
pub mod Wipes
