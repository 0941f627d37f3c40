pub mod KeptLaws
pub mod StepLaws
