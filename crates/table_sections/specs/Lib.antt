pub mod Lines
pub mod Slots
pub mod Sections
pub mod Places
pub mod Prepared
pub mod Orders
pub mod Together
pub mod Preparing
