pub mod Decks
pub mod Trails
pub mod Shares
pub mod Slices
pub mod Ends
