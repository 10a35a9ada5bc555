pub mod Lines
pub mod Sorting
pub mod Sorted
pub mod Steps
pub mod Promises
