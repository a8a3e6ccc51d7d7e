pub mod Text
pub mod Drive
