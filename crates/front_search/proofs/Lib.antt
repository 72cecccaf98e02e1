pub mod TurnedLists
pub mod TurnedSteps
pub mod LeastForm
pub mod BareCertificates
pub mod FoundFronts
