pub mod Refusals
pub mod Entry
