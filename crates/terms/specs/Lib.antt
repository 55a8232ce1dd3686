pub mod View
pub mod Masks
pub mod Words
pub mod Exponents
pub mod Factors
pub mod SignByMasks
pub mod Signed
