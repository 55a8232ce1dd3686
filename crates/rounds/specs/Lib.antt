pub mod Views
pub mod Ended
pub mod Start
pub mod Run
pub mod Afresh
pub mod Bounded
pub mod Turned
