pub mod Trees
pub mod Orders
pub mod Searches
pub mod Leading
pub mod Steps
pub mod Roots
pub mod Found
