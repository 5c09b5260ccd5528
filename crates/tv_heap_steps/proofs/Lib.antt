pub mod ChosenLaws
pub mod StepLaws
pub mod SettledLaws
