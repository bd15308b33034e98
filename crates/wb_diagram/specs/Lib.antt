pub mod Keys
pub mod Units
pub mod Diagrams
