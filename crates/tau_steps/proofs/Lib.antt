pub mod Reasons
pub mod Bounds
pub mod Lengths
pub mod Marked
pub mod Energy
pub mod Muted
