pub mod Marks
pub mod Takers
pub mod Turning
pub mod Boards
pub mod Run
pub mod Known
pub mod Counting
