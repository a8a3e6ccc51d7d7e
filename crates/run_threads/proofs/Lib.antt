pub mod PutBack
pub mod Places
pub mod Drives
pub mod Placing
