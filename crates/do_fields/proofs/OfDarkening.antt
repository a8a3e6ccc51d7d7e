pub mod Exchanges
pub mod Learning
