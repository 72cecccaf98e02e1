-- What contracts of private functions alone cite: no caller has to read it.
pub mod Parts
pub mod Wholes
pub mod CostsLeft
