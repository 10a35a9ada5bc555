pub mod Suppressor
