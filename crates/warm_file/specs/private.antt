-- What contracts of private functions alone cite: no caller has to read it.
pub mod Joined
pub mod RisingItems
pub mod Answers
pub mod Faults
pub mod Searches
