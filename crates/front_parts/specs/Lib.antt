pub mod Sums
pub mod private
