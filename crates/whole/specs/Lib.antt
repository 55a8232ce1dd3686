pub mod Differences
pub mod Solver
