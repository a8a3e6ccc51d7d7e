pub mod OfCommands
pub mod OfLooks
pub mod OfWipes
