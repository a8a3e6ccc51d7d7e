pub mod Structures
pub mod Thinning
pub mod Performing
pub mod TableLaws
pub mod Stages
