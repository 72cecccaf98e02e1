pub mod Truth
pub mod Stops
pub mod Solved
pub mod Columns
