pub mod Line
pub mod Count
