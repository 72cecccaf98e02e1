pub mod AnswerLemmas
pub mod WithinLemmas
pub mod ReplyLemmas
pub mod CauseLemmas
