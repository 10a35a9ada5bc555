pub mod Pairs
pub mod Calls
pub mod Marked
pub mod Promises
