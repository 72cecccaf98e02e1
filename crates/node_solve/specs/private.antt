-- What contracts of private functions alone cite: no caller has to read it.
pub mod Ends
pub mod RoundCode
pub mod Places
pub mod Rounds
