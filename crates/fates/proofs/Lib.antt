pub mod Tokens
pub mod Fating
