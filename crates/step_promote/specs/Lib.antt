pub mod Promotion
pub mod Claims
pub mod Writes
