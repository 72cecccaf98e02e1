pub mod BoundLemmas
pub mod CauseLemmas
