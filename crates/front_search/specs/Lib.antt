pub mod FrontsFound
pub mod Completeness
