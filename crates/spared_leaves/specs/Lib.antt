pub mod Touched
pub mod Alike
pub mod Questions
pub mod Spared
pub mod Laws
pub mod private
