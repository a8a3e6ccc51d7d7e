pub mod Pushes
pub mod PlaysLemmas
