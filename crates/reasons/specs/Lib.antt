pub mod Records
pub mod Words
pub mod Telling
pub mod Told
