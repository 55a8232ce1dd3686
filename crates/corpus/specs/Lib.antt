pub mod Blocks
pub mod Deductions
