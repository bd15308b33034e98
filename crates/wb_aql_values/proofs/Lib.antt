pub mod BoundLemmas
pub mod CellLemmas
pub mod FormLemmas
pub mod Putting
pub mod RunLemmas
pub mod Sublists
pub mod Yields
