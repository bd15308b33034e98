pub mod KeyOrder
pub mod Maps
pub mod Searches
pub mod Kept
pub mod Laid
pub mod Counts
pub mod Each
