pub mod Passing
pub mod Hints
