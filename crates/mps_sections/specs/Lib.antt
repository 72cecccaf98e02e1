pub mod Statements
pub mod Faults
pub mod Shown
pub mod ReadingOf
pub mod Sets
pub mod Limits
pub mod private
