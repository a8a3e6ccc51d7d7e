pub mod HeadLemmas
pub mod WordLemmas
pub mod OfRemembered
