pub mod RealFft
pub mod Parts
pub mod Scratch
pub mod Calls
pub mod Promises
