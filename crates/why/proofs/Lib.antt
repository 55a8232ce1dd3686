pub mod Filling
pub mod Tokens
