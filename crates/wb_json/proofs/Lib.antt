pub mod Ascending
pub mod Escapes
pub mod Found
pub mod JsonTexts
pub mod Turns
pub mod Views
