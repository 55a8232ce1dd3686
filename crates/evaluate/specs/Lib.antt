pub mod Tree
pub mod Walk
pub mod Entry
pub mod Refusals
