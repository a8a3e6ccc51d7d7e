pub mod Searching
pub mod Seeking
pub mod Writing
pub mod ListWriting
pub mod Counted
pub mod Creating
