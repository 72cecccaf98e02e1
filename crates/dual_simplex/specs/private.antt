-- What contracts of private functions alone cite: no caller has to read it.
pub mod BestPlaces
pub mod RowNumbers
pub mod WholeRatios
pub mod Answers
pub mod Solves
pub mod Starts
pub mod SmallStandings
