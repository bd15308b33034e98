pub mod ByName
pub mod ModelFile
pub mod ModelText
pub mod Refusals
pub mod RowText
pub mod Rows
pub mod Written
