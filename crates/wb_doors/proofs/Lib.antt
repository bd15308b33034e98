pub mod Counting
pub mod Fronts
pub mod Happenings
pub mod Keeping
