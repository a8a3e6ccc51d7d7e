pub mod OfSchedules
pub mod OfScheduled
pub mod OfOrders
pub mod OfSpawns
