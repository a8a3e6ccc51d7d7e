pub mod Cells
pub mod Finalisers
pub mod Lost
pub mod Weak
pub mod Reads
pub mod Held
pub mod Together
