pub mod LeftLemmas
pub mod PlaceRise
pub mod TreeOrder
pub mod EditOrder
pub mod TakenOrder
