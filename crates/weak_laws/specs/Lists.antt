pub mod Lists
pub mod ListLaws
pub mod Orders
