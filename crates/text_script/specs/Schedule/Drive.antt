pub mod Together
pub mod Pausing
pub mod Ending
pub mod Following
pub mod Spending
