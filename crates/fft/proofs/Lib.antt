pub mod Lengths
pub mod Silence
pub mod Sizes
pub mod Ends
pub mod Scaled
pub mod Served
pub mod Halves
