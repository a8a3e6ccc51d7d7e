pub mod NaturalLemmas
