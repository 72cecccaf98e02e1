pub mod AnswerLemmas
pub mod GoesOnLemmas
pub mod RayLemmas
pub mod UnboundedLemmas
pub mod SamePointsLemmas
pub mod WithinRegionLemmas
