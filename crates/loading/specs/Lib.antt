pub mod Refusals
pub mod Started
pub mod Writing
pub mod Exported
