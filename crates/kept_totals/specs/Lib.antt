pub mod Forms
pub mod Kept
pub mod Walk
pub mod Short
