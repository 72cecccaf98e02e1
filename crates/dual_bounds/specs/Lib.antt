pub mod NewNumbers
pub mod TreeBounds
pub mod Laws
pub mod private
