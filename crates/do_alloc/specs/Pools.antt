pub mod Taken
pub mod Listed
pub mod Created
pub mod NewMarks
