pub mod OfYoung
pub mod OfPools
