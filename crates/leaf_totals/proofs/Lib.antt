pub mod EndLemmas
pub mod KeptLemmas
pub mod BackLemmas
pub mod CostLemmas
pub mod MovedLemmas
