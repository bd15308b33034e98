pub mod Nodes
pub mod Grounds
pub mod Marks
