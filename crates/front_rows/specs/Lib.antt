pub mod Scripts
pub mod Stopping
