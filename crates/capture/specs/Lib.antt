pub mod Feeds
pub mod Program
pub mod Promises
