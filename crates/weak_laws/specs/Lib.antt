pub mod Tables
pub mod Maps
pub mod Lists
