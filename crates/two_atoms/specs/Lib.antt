pub mod Sums
pub mod Totals
pub mod Tries
pub mod Cuts
pub mod Ranges
