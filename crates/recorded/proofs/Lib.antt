pub mod Both
pub mod Calls
pub mod Program
