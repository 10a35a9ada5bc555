pub mod Held
pub mod Turns
