pub mod TightLemmas
pub mod TrailLemmas
