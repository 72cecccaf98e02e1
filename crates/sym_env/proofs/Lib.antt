pub mod BeginLemmas
pub mod EnoughLemmas
pub mod TruthLemmas
pub mod SolveLemmas
pub mod WarmLemmas
