pub mod Recorded
pub mod Promises
pub mod Program
