pub mod Falling
pub mod Filled
pub mod Masked
pub mod Noted
pub mod Search
pub mod Silent
pub mod Words
