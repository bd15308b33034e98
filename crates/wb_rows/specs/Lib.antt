pub mod Texts
pub mod Rows
pub mod States
pub mod Changes
