pub mod Children
pub mod Joined
pub mod OwnNames
pub mod Rows
pub mod Steps
