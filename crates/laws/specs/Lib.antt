pub mod Loops
pub mod Choice
pub mod Readings
pub mod Tables
pub mod Parts
pub mod Kinds
pub mod Counting
