pub mod Bins
pub mod Windows
pub mod Ring
pub mod FarRing
pub mod Powers
pub mod Far
