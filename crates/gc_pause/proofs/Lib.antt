pub mod OfStops
pub mod OfPhases
pub mod OfLaws
