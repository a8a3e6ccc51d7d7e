pub mod Spelling
pub mod Faults
pub mod Replayable
pub mod Replays
