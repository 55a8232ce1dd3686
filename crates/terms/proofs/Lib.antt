pub mod Coefficients
pub mod Building
pub mod Places
