mod Computed
pub mod Angles
pub mod Entries
pub mod Marked
