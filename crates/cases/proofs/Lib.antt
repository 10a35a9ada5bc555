pub mod Bounds
pub mod Count
pub mod Fields
