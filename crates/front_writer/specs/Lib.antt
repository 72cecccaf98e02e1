pub mod FrontWords
pub mod Laws
pub mod private
