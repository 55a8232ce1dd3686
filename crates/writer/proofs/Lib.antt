mod Signed
pub mod Writing
pub mod WritingExponents
pub mod WritingTree
pub mod WritingWhole
