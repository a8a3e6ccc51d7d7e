pub mod Forms
pub mod Exported
pub mod Resting
pub mod Asking
pub mod Maps
pub mod Lent
