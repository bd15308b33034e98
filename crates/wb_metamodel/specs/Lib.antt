pub mod Checks
pub mod Metamodel
pub mod WellFormed
pub mod invariants
