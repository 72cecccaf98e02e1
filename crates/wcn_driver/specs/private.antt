-- What contracts of private functions alone cite: no caller has to read it.
pub mod Tasks
pub mod Settled
pub mod Founds
pub mod Kept
pub mod Ends
pub mod Gaps
pub mod Told
pub mod State
