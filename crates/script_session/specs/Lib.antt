-- A reader starts with Run, which says what the clauses of `run_script` mean.
pub mod Limits
pub mod Request
pub mod Script
pub mod Stand
pub mod Reply
pub mod Run
pub mod Told
pub mod Output
pub mod private
