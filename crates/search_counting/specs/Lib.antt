pub mod Points
pub mod Work
pub mod Laws
