pub mod Stream
pub mod Marked
pub mod Silence
pub mod Powers
