pub mod PartEdits
