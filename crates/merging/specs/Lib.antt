pub mod Merged
pub mod Slots
