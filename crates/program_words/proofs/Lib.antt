pub mod PlainLemmas
pub mod FormLemmas
pub mod FindLemmas
pub mod NumberLemmas
pub mod BenchLemmas
