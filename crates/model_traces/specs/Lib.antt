pub mod Schedules
pub mod Scheduled
pub mod Orders
pub mod Spawns
