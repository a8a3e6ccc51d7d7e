pub mod Counting
pub mod Driving
pub mod Opening
pub mod Refusing
pub mod Turning
