pub mod Exchanges
