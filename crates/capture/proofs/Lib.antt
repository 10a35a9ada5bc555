pub mod Room
pub mod Program
