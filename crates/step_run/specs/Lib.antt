pub mod Fields
pub mod Exchange
pub mod Queues
pub mod Young
