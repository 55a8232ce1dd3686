pub mod Said
pub mod Carrying
pub mod Removing
pub mod TestFirst
pub mod OtherAtoms
pub mod SilentAtoms
pub mod ByPairs
pub mod NoPairs
