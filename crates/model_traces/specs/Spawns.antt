pub mod Hidden
pub mod Expansion
pub mod Printed
pub mod Joined
pub mod Progress
