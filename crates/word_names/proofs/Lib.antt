pub mod ScriptNames
