pub mod Fresh
pub mod Refusals
