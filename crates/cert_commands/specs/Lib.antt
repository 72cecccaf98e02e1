pub mod Certificates
pub mod Certify
pub mod Family
