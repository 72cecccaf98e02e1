pub mod Rounded
pub mod FirstOpen
pub mod WithinBound
