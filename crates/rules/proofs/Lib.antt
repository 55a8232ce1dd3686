pub mod ByHand
pub mod Cases
pub mod Edges
pub mod Editions
pub mod PoolCases
pub mod ReasonCases
pub mod Tenths
