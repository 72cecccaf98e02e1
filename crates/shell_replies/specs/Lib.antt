pub mod Shown
pub mod Names
pub mod Placing
pub mod Bounds
pub mod Faults
pub mod private
