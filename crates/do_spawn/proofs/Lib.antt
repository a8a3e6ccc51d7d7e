pub mod Making
pub mod Owed
pub mod Interleaved
pub mod Handing
pub mod Ended
pub mod Leveling
pub mod Opens
