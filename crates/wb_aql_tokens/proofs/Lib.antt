pub mod Runs
pub mod Words
pub mod Spellings
pub mod Next
pub mod Pieces
pub mod Lexing
pub mod Apart
pub mod OneLexing
