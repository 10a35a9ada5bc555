pub mod Sorting
pub mod Lines
pub mod Again
pub mod Places
pub mod Written
pub mod Answered
pub mod Manifest
pub mod Examples
