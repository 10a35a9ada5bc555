pub mod Accepted
pub mod Served
