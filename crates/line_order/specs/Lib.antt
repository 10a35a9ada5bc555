pub mod Order
pub mod Promises
