pub mod Front
pub mod Reading
