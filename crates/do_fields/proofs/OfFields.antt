pub mod Doing
pub mod FieldLoads
pub mod FieldSteps
pub mod FieldStores
pub mod Loading
pub mod Looking
pub mod Unpacking
