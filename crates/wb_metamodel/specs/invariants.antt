-- What the code keeps to, apart from what it is about.
pub mod Inherited
pub mod Inside
pub mod Tables
