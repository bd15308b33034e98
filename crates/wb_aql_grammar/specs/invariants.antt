-- How the parser reads from the left, and what its steps leave: no word of the language stands here.
pub mod Reading
pub mod Runs
pub mod Spelled
