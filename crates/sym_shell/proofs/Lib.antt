pub mod OwnLemmas
pub mod LawLemmas
pub mod HeadlineLemmas
pub mod RestoredLaws
pub mod CauseLemmas
pub mod StepLemmas
pub mod RunLemmas
