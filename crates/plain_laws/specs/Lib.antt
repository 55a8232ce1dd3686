pub mod StandIn
pub mod Listed
pub mod Same
pub mod Bounds
