pub mod FormLemmas
pub mod EntryLemmas
pub mod NameLemmas
pub mod PairLemmas
pub mod BoundLemmas
pub mod EditedModels
