pub mod Copies
pub mod Numbers
pub mod NormalSlots
pub mod Searches
pub mod Own
pub mod Passes
pub mod Worked
pub mod Lent
