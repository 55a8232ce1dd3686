pub mod Refusals
pub mod Normal
pub mod Tapes
pub mod Travel
pub mod Answered
pub mod Entry
pub mod Way
