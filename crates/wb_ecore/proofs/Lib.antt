pub mod NameLemmas
pub mod Numbered
pub mod Taken
