pub mod Fields
pub mod Darkening
