pub mod Walks
pub mod Firsts
pub mod Nothing
pub mod Silencing
pub mod States
pub mod Masking
pub mod Skips
