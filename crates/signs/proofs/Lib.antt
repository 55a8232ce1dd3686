pub mod Remainder
pub mod Values
