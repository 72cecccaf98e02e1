pub mod LineLemmas
pub mod TextLemmas
pub mod ReadSteps
pub mod TextLaws
pub mod KeptLemmas
pub mod StatementLemmas
