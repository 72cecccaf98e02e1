pub mod Parts
pub mod Answers
pub mod Laws
pub mod private
