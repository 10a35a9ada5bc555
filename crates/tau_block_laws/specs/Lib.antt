pub mod Bounds
pub mod Silence
pub mod Resets
pub mod Powers
