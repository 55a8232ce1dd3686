pub mod Met
pub mod Values
pub mod Tests
