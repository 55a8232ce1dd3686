pub mod Starts
pub mod Writes
pub mod Cuts
pub mod Torn
pub mod Erased
pub mod Load
