pub mod Accepted
pub mod Records
pub mod Captures
