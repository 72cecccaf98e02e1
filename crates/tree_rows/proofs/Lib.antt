pub mod TreeBounds
