pub mod Claims
pub mod Solving
pub mod Editing
pub mod Behind
pub mod Moved
