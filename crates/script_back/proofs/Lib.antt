pub mod Positions
pub mod Opens
pub mod Turns
pub mod Tokens
pub mod Walk
pub mod Forks
pub mod Texts
