pub mod Tidied
pub mod Carried
pub mod Swept
