pub mod Readings
pub mod Fractions
pub mod Rounds
pub mod Answers
