pub mod Asked
pub mod Climbs
pub mod Collections
pub mod Navigation
pub mod Services
pub mod Texts
pub mod Types
