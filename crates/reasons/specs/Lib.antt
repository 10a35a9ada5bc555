pub mod Words
pub mod Leak
pub mod Line
pub mod Course
pub mod Tally
pub mod Note
