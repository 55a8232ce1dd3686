pub mod Variables
pub mod Lists
pub mod Narrowing
