pub mod CertText
pub mod Room
pub mod Laws
