pub mod Behind
pub mod Said
