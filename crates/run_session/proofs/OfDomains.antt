pub mod Labels
pub mod Performs
pub mod Seats
