pub mod Twice
pub mod Keeps
pub mod Shape
