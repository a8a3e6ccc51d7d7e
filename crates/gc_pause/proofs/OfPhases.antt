pub mod Opens
pub mod Leads
pub mod Measure
pub mod Sorted
pub mod Works
