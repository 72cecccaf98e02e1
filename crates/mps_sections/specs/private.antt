-- What contracts of private functions alone cite: no caller has to read it.
pub mod HeaderTests
pub mod ReadingOf
pub mod Shown
