pub mod Kept
pub mod Walks
pub mod Classes
pub mod NodeLaws
