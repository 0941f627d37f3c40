pub mod MadeLaws
pub mod EntryLaws
pub mod BoundLaws
