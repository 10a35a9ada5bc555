pub mod Guard
pub mod Powers
