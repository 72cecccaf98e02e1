pub mod ClosedTree
pub mod SoundLemmas
pub mod PlaceLemmas
pub mod OpenLemmas
pub mod OtherLemmas
pub mod TakenLemmas
pub mod FurtherCut
