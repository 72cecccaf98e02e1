-- What contracts of private functions alone cite: no caller has to read it.
pub mod PlaceKeys
pub mod Cuts
pub mod Walk
