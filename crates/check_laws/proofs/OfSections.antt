pub mod Walking
pub mod Counting
pub mod Passing
pub mod Ordering
pub mod Printing
pub mod Seeing
pub mod Waiting
pub mod Rows
