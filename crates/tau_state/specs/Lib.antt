pub mod Constants
pub mod Sums
pub mod After
pub mod Ranges
pub mod Report
