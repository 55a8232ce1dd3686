pub mod Tape
pub mod FirstUse
