pub mod Arrays
pub mod Writing
