pub mod OfHistories
pub mod OfCollector
pub mod OfReach
pub mod OfWays
