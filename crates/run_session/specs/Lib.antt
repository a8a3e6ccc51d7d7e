pub mod Stopping
pub mod Sessions
pub mod Driving
pub mod Domains
