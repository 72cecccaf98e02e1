pub mod GoneOn
pub mod SearchOrder
