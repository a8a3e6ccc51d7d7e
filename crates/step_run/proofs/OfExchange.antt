pub mod ExchangeSteps
pub mod Plain
pub mod SameValues
