pub mod Pairs
pub mod Filled
