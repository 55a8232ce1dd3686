pub mod Fresh
pub mod Boards
pub mod Common
pub mod Onward
pub mod Sharper
pub mod Bound
pub mod Removal
pub mod AtMost
