pub mod SumLaws
pub mod StepLaws
pub mod AnswerLaws
