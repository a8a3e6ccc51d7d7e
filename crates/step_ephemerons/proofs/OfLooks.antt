pub mod Listings
pub mod RoundSteps
pub mod Keys
pub mod Cleaning
pub mod CleanSteps
pub mod Plain
