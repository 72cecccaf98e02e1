-- What contracts of private functions alone cite: no caller has to read it.
pub mod Entries
pub mod Numbers
pub mod Optional
pub mod Queued
pub mod Walked
pub mod Ways
