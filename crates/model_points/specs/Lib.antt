pub mod Answers
pub mod Rays
pub mod Bounds
pub mod Laws
pub mod private
