-- Graphs, and what each entry does to one.
pub mod ListLemmas
pub mod GraphLemmas
pub mod NamedLemmas
pub mod GraphStepLemmas
