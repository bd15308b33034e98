-- What the code keeps to, apart from what it is about.
pub mod Index
pub mod NumberedNames
pub mod TakenNames
