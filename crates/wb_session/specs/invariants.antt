-- What the code keeps to while it works.
pub mod Keeping
