pub mod Tries
pub mod Frames
pub mod Leaves
pub mod Puts
