pub mod Rows
pub mod Tries
pub mod Sieve
