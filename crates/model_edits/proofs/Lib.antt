pub mod ListLemmas
pub mod EntriesLaws
pub mod EditedLaws
pub mod BesideLemmas
pub mod LawfulLemmas
pub mod CountLemmas
pub mod EditLaws
pub mod FittingLemmas
