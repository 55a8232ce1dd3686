pub mod Refusals
pub mod Held
pub mod Tokens
pub mod Steps
