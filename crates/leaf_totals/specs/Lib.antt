pub mod Keeping
pub mod Likeness
pub mod Moving
