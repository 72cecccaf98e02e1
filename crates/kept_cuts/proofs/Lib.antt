pub mod Counted
pub mod KeptLemmas
pub mod SparedCuts
