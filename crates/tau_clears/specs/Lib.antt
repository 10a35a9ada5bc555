pub mod Weights
pub mod Clears
