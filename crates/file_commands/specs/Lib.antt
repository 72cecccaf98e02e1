pub mod Load
pub mod Writing
pub mod Saving
pub mod Family
pub mod Laws
pub mod private
