pub mod SignSets
pub mod Rows
pub mod Nothing
pub mod Lasts
pub mod LastWalks
pub mod Board
pub mod LoneTerms
