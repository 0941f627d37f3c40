pub mod MovedLaws
pub mod EntryLaws
pub mod BoundLaws
