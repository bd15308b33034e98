pub mod Bounds
pub mod Cells
pub mod Gathering
pub mod Readings
pub mod Runs
pub mod TextForms
pub mod Values
