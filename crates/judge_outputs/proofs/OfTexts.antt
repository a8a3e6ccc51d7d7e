pub mod GoneLemmas
pub mod EffectLemmas
pub mod RunLemmas
