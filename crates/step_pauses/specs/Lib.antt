pub mod Pauses
