pub mod FrontReplies
pub mod FrontsShown
pub mod Laws
