pub mod WordLaws
pub mod StatedLaws
pub mod PrintedLaws
pub mod FitLaws
pub mod SaidLaws
pub mod KeptLaws
pub mod PutLaws
pub mod LinesPut
