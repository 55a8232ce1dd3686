pub mod Merge
pub mod Bars
pub mod Leaves
