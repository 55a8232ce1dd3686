pub mod Scaled
pub mod Alike
pub mod Edge
pub mod Converted
