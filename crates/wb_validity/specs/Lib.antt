pub mod Broken
pub mod Conditions
pub mod Flaws
pub mod Ranges
pub mod Valid
pub mod ValidTest
pub mod invariants
