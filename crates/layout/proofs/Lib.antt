pub mod Places
pub mod Moved
pub mod Bins
pub mod Partitions
