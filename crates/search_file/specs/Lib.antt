pub mod Lawful
pub mod Saved
pub mod Files
pub mod Laws
pub mod private
