pub mod CertificateLemmas
pub mod CertLemmas
pub mod CauseLemmas
