pub mod EditLemmas
pub mod TrimLemmas
pub mod CauseLemmas
