pub mod Answering
pub mod Names
pub mod Fronts
pub mod Family
