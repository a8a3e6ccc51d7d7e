pub mod OfText
pub mod OfDrive
