pub mod Bounding
pub mod Family
pub mod Laws
pub mod private
