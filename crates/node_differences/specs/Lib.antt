pub mod Order
pub mod Differences
pub mod Told
pub mod Above
pub mod Answers
pub mod Laws
pub mod private
