pub mod Refusals
pub mod Flat
pub mod Entry
pub mod Way
pub mod Theorems
pub mod Exported
