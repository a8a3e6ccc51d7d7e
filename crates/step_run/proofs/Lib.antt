pub mod OfFields
pub mod OfExchange
pub mod OfQueues
pub mod OfYoung
