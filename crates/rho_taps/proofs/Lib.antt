pub mod Runs
pub mod Parts
pub mod Greatest
pub mod Lanes
pub mod NoNan
