pub mod Bits
pub mod Columns
