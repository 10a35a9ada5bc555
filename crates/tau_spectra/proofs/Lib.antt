pub mod Fours
pub mod True
