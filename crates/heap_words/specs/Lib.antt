pub mod ColourWords
pub mod Heads
pub mod Labels
pub mod Marks
pub mod Unpacked
pub mod Values
pub mod Classes
pub mod Remembered
