pub mod Answers
pub mod Beginnings
pub mod Laws
pub mod private
