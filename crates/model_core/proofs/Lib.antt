pub mod Graphs
pub mod Reach
pub mod Commands
pub mod Collections
pub mod Histories
pub mod OfCounts
pub mod OfControls
