pub mod Booleans
pub mod Lists
pub mod Sets
pub mod Whole
pub mod Exact
