pub mod Counts
pub mod Cut
pub mod Silence
pub mod Freeze
pub mod Since
