pub mod Bounds
pub mod Kept
pub mod Muted
pub mod Silence
pub mod Ran
pub mod Resets
pub mod Powers
