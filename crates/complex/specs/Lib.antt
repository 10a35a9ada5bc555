pub mod Complexes
pub mod Promises
