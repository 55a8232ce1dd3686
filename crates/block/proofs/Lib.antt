mod Signed
pub mod Steps
pub mod ReadingTerms
pub mod ReadingPairs
pub mod ReadingTable
pub mod ReadingTree
pub mod ReadingEnd
pub mod ReadingHead
pub mod ReadingWhole
