-- What the code keeps to while it works.
pub mod Entries
pub mod Kept
pub mod Searches
pub mod Seen
