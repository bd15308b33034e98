pub mod Floats
pub mod Paths
pub mod Spelling
