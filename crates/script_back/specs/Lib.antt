pub mod Refusals
pub mod Runs
pub mod Opening
pub mod Tree
pub mod Whole
pub mod Back
