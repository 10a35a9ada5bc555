pub mod Ring
pub mod Peak
pub mod Update
pub mod Runs
