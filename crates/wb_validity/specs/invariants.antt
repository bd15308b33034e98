-- What the code keeps while it checks: no word of the subject stands here.
pub mod LinkSets
pub mod Rings
pub mod Roots
