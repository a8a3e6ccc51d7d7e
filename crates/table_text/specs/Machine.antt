pub mod Machine
pub mod Said
pub mod Texts
pub mod Rows
