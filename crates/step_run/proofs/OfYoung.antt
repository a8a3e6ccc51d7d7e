pub mod Plain
pub mod MakeSteps
pub mod ClassSizes
