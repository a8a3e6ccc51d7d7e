pub mod Meeting
pub mod Preparing
pub mod Racing
pub mod Valuing
pub mod Fills
pub mod Rooting
pub mod HeldMoves
pub mod Giving
