pub mod Record
pub mod Kind
pub mod Reading
pub mod Header
pub mod Writing
pub mod Capture
pub mod Answers
pub mod Promises
