pub mod Registering
pub mod Running
pub mod Looking
