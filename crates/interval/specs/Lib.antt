pub mod Ends
pub mod Coefficients
pub mod Kinds
