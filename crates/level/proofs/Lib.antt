pub mod Stages
pub mod Gathering
pub mod Skipping
pub mod Telling
pub mod Rooted
