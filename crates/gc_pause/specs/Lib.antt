pub mod Stops
pub mod Phases
pub mod Laws
