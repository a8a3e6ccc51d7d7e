pub mod OfCalls
pub mod OfSeats
