pub mod ShownLaws
pub mod RowLaws
