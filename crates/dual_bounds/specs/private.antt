-- What contracts of private functions alone cite: no caller has to read it.
pub mod Spared
pub mod Walk
