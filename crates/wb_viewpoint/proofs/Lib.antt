pub mod Depths
pub mod Steps
pub mod Trees
pub mod Turns
