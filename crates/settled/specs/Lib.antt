pub mod Carried
pub mod Others
pub mod Remaining
pub mod Ends
