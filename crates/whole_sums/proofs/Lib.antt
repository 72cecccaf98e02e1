pub mod RoomLemmas
pub mod ReadLemmas
pub mod SumLemmas
