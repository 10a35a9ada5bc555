pub mod Trig
pub mod Tables
pub mod Marked
pub mod Promises
