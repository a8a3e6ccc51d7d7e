pub mod OfFields
pub mod OfDarkening
