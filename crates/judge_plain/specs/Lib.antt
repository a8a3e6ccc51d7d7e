pub mod Follows
pub mod Writes
pub mod Modes
pub mod History
pub mod Spawned
pub mod Scheduled
