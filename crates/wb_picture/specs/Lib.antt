pub mod Picture
pub mod Opening
pub mod Views
pub mod invariants
