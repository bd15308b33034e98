pub mod Orders
pub mod Positions
pub mod Grid
pub mod Logs
pub mod invariants
