pub mod FrontEnvs
pub mod private
