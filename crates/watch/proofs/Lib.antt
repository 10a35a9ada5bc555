pub mod Waits
pub mod Pieces
