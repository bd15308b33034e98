pub mod Codes
pub mod Expressions
pub mod Lexing
pub mod NextToken
pub mod Parsed
