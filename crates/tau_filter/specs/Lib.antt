pub mod Filter
pub mod Left
