-- What contracts of private functions alone cite: no caller has to read it.
pub mod Next
pub mod Steps
pub mod Rebuilding
