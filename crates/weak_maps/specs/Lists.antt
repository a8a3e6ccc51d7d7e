pub mod Frames
pub mod Stretches
pub mod Answers
pub mod Counts
