pub mod Keys
pub mod Playing
pub mod Answer
