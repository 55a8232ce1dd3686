pub mod Stores
pub mod Normal
pub mod Euclid
pub mod NormalRuns
