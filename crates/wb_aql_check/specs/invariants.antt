-- What the walk over the parts of an expression leaves.
pub mod Walks
