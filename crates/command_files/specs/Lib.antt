pub mod Reading
pub mod Refusals
pub mod Filing
pub mod Checking
pub mod private
