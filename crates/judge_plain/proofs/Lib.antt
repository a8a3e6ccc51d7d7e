pub mod CommandLemmas
pub mod PlaceLemmas
pub mod SoundLemmas
pub mod ModeLemmas
pub mod RoundLemmas
pub mod OfHistory
pub mod OfSpawned
pub mod OfScheduled
