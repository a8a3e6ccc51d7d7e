pub mod Alike
pub mod Lines
pub mod Parting
pub mod Rows
