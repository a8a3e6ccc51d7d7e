pub mod OfTables
pub mod OfMaps
pub mod OfLists
