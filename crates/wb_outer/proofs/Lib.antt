pub mod Connections
pub mod KeptRows
pub mod Pieces
pub mod Puts
