mod Sizes
mod Arriving
mod Finishing
mod PoolLabels
mod Repainting
mod BesideRows
mod Naming
mod CollectorEntries
mod Growing
mod Leading
mod Arrivals
pub mod Plain
pub mod Looking
pub mod PauseSteps
pub mod EndSteps
