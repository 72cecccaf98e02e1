-- What contracts of private functions alone cite: no caller has to read it.
pub mod Collapsing
pub mod Due
pub mod Moved
pub mod Paths
pub mod Rebuilt
pub mod Relisted
pub mod Removing
pub mod Spliced
pub mod Splicing
pub mod StateWalk
pub mod Trimming
pub mod Held
pub mod Preorder
pub mod Stored
pub mod Table
