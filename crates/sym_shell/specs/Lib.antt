pub mod Own
pub mod Step
pub mod Headline
pub mod Kept
pub mod Causes
pub mod Shell
pub mod Run
pub mod Laws
