pub mod LineLaws
pub mod StatedLaws
pub mod GoodLaws
pub mod PrintedLaws
pub mod PutLaws
pub mod RoomLaws
