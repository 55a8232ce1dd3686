pub mod Runs
pub mod Merge
pub mod Last
pub mod Alone
