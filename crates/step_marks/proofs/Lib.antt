pub mod OfMarking
pub mod OfBeside
