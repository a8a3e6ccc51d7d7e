pub mod Commands
pub mod Frames
pub mod Held
pub mod Walks
pub mod Tables
pub mod Arrays
pub mod Calls
pub mod Laws
