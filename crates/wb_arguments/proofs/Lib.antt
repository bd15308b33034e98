pub mod Bindings
pub mod Tools
