pub mod Less
pub mod Leaving
