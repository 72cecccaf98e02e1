pub mod Spelling
pub mod Parsing
pub mod Sides
pub mod private
