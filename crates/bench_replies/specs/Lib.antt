pub mod Benches
pub mod private
