pub mod Runs
pub mod Tree
