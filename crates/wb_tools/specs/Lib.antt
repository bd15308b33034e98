pub mod Answers
pub mod Bindings
pub mod Doings
pub mod FeatureEdits
pub mod Operations
pub mod Readiness
pub mod Runs
pub mod Tools
