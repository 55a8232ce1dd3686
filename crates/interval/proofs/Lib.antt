pub mod Products
pub mod Fractions
pub mod Cutting
pub mod Values
pub mod Allowed
