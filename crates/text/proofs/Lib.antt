mod Powers
pub mod Texts
