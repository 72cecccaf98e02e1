pub mod Tight
pub mod SameBounds
pub mod private
