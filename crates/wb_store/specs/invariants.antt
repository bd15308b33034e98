-- What the code keeps, and what its steps leave: no word of the subject stands here.
pub mod Arranged
pub mod Links
pub mod Marks
pub mod Plain
pub mod Removals
pub mod Slots
