pub mod Settled
pub mod Source
pub mod Tree
pub mod Written
