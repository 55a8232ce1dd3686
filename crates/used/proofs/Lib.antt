pub mod Slots
pub mod FirstUse
pub mod Ordering
pub mod Copying
pub mod Numbering
pub mod Collected
pub mod Counted
