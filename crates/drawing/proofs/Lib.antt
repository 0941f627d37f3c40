pub mod FromLaws
pub mod PlanLaws
pub mod DigitLaws
pub mod LabelLaws
pub mod LineLaws
pub mod EntryLaws
pub mod BoundLaws
