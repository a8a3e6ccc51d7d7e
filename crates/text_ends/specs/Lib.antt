pub mod Faults
pub mod InMemory
pub mod Adapters
pub mod Writing
