pub mod Codes
pub mod Expressions
pub mod Places
pub mod Grammar
pub mod Tree
pub mod View
pub mod invariants
