pub mod Dead
pub mod Sweeps
pub mod SweepLaws
