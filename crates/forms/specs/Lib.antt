pub mod Slots
pub mod Working
pub mod Holding
pub mod Tokens
