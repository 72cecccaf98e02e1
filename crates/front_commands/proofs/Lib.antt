pub mod ReplyLemmas
pub mod CauseLemmas
pub mod NameLemmas
