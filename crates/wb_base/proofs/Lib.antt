pub mod Answered
pub mod ListLemmas
pub mod Paths
pub mod Positions
pub mod Steps
pub mod Zips
