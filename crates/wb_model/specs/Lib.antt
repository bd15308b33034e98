pub mod Building
pub mod EditChecks
pub mod EditLaws
pub mod Edits
pub mod GivenEdits
