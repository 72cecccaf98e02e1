pub mod Answering
pub mod Showing
pub mod Workers
pub mod Solve
pub mod Warming
pub mod Family
