pub mod Values
pub mod Bedded
mod Waiting
mod Handing
mod Standing
pub mod RefusedBodies
