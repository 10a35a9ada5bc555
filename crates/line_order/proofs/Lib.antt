pub mod Compared
pub mod Keys
pub mod Numbers
pub mod Order
pub mod Walk
