pub mod Runs
pub mod Sections
pub mod Sessions
pub mod Texts
