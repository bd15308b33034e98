-- What the code keeps to while it checks.
pub mod Findings
pub mod InnerScopes
pub mod Known
pub mod Reports
pub mod Rows
pub mod Taken
