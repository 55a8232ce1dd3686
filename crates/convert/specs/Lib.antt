pub mod Refusals
pub mod Converted
pub mod Exported
