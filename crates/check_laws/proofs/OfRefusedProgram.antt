pub mod Answers
pub mod Runs
pub mod Tables
pub mod Replays
