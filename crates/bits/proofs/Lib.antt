pub mod Stores
pub mod Fields
pub mod Bytes
pub mod Packing
mod Turns
mod Words
