pub mod Registers
pub mod Remembered
pub mod Shapes
