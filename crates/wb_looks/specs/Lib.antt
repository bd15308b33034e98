pub mod Looks
pub mod Filters
pub mod Visible
pub mod Conditions
