pub mod Playing
pub mod Plays
