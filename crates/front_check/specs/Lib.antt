pub mod Accepted
pub mod Verdict
pub mod Passing
pub mod Laws
pub mod private
