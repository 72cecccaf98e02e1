pub mod PointLemmas
pub mod WorstLemmas
pub mod ListLemmas
pub mod MarkLemmas
pub mod CheckLemmas
pub mod KeepableLemmas
pub mod NearestZero
