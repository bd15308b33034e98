pub mod Lexes
pub mod Lexer
pub mod Apart
