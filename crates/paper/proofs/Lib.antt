pub mod Cases
pub mod WordLaws
pub mod FormLaws
pub mod StepLaws
pub mod OrderLaws
pub mod MachineLaws
pub mod RunLaws
