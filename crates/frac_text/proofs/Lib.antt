pub mod DigitTerms
pub mod Cuts
pub mod Magnitude
pub mod SpellingTerms
pub mod PrintedReads
pub mod ParseTerms
