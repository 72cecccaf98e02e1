pub mod LoadLemmas
pub mod WriteLemmas
pub mod SaveLemmas
pub mod RestoreLemmas
pub mod RestoredLaws
pub mod CauseLemmas
