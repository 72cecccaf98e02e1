pub mod Names
pub mod Options
pub mod Asks
pub mod private
