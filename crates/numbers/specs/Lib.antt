pub mod Order
pub mod Finite
pub mod Narrowing
pub mod Zeros
pub mod Ranges
pub mod Marked
pub mod Same
pub mod Promises
