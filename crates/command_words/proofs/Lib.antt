pub mod NameLemmas
pub mod NumberLemmas
pub mod OptionLemmas
pub mod FormLemmas
