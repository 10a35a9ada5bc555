pub mod Rows
pub mod InPass
pub mod Values
pub mod Sorting
