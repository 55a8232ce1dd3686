pub mod Tokens
pub mod Stepping
pub mod Recording
pub mod Explaining
