pub mod Reversal
pub mod ComplexFft
pub mod Calls
pub mod Marked
pub mod Promises
