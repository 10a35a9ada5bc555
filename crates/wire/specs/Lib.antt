pub mod Wire
pub mod Promises
