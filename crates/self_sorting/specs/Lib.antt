pub mod Quads
pub mod Passes
