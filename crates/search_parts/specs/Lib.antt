pub mod Points
pub mod Joining
pub mod Lists
pub mod Checks
pub mod EditedPoints
pub mod Nearest
pub mod private
