pub mod Counts
pub mod Cut
pub mod Outcomes
pub mod Blocks
pub mod Since
pub mod Marked
pub mod Silence
pub mod Powers
