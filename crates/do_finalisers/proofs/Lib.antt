pub mod Sorting
pub mod Looking
pub mod Registrations
pub mod Runs
