pub mod Env
pub mod Editing
pub mod Trimming
pub mod Worked
