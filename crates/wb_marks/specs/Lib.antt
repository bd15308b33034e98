pub mod DeclaredKeys
pub mod Marks
pub mod Ones
