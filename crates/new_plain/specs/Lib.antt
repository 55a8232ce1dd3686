pub mod Proper
pub mod Solid
pub mod NewPlain
