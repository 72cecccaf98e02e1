pub mod Search
pub mod GapNumbers
