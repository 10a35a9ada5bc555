pub mod Composed
pub mod Few
