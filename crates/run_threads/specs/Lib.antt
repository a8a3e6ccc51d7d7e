pub mod Driven
pub mod Taking
pub mod Placing
