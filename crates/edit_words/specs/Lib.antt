pub mod Forms
pub mod EditWords
pub mod NewNames
pub mod NewBounds
pub mod private
