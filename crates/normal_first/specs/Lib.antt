pub mod NormalFirst
pub mod Counts
