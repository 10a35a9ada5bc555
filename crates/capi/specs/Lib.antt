pub mod Tau
pub mod Record
pub mod Promises
