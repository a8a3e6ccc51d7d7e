pub mod Numbers
pub mod Options
pub mod RunWords
pub mod Jobs
pub mod Spelled
pub mod Commands
