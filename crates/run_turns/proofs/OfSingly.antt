pub mod Driven
pub mod Finalising
pub mod Refused
pub mod Starts
pub mod Begun
pub mod Turned
