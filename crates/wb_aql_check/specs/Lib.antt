pub mod Checked
pub mod Names
pub mod Scopes
pub mod Services
pub mod invariants
