pub mod Sharing
pub mod Leading
pub mod Measure
