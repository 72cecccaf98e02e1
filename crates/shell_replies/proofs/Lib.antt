pub mod TextLemmas
pub mod ShownWords
pub mod ShownBack
pub mod PlacingLemmas
pub mod NumberLemmas
