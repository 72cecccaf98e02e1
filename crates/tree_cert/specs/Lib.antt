pub mod Cuts
pub mod Certificates
pub mod Laws
pub mod private
