pub mod Words
pub mod Weights
pub mod Masks
pub mod Passes
