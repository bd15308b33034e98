pub mod Environments
pub mod Limits
pub mod Meanings
pub mod SameKeys
pub mod Seen
pub mod UnitExpressions
