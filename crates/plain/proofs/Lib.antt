pub mod Numbers
pub mod Sets
pub mod Walks
pub mod Nears
pub mod Seens
