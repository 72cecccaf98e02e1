pub mod WordNames
pub mod ScriptModels
