pub mod Places
pub mod SlotLemmas
pub mod Behind
pub mod Walk
pub mod Grown
pub mod PassLemmas
pub mod CalmLemmas
pub mod LevelLemmas
pub mod InStep
pub mod Pace
pub mod Histories
pub mod Sharing
pub mod TurnLemmas
pub mod Joining
pub mod Turning
pub mod EndLemmas
mod Gathering
mod RefusedBodies
pub mod Ample
pub mod Asking
pub mod Served
pub mod Serving
pub mod RefusedSteps
