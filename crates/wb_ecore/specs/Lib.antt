pub mod Codes
pub mod Document
pub mod Naming
pub mod Repeats
pub mod Resolving
pub mod invariants
