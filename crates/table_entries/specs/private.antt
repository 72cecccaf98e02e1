-- What contracts of private functions alone cite: no caller has to read it.
pub mod RowSteps
pub mod Listed
pub mod Parts
pub mod Steps
pub mod LeftRows
pub mod Ways
pub mod NextEntries
