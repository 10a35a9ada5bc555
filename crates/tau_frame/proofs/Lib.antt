pub mod Later
pub mod Going
pub mod Waits
pub mod Ended
