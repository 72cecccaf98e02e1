pub mod TotalsLemmas
pub mod WalkLemmas
pub mod ShortLemmas
