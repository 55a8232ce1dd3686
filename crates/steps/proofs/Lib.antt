pub mod Slots
pub mod Constants
pub mod Merging
pub mod Handing
pub mod SmallSets
pub mod Cutting
pub mod Atomwise
pub mod Childwise
