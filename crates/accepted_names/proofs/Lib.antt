pub mod InnerNames
pub mod AcceptedNames
