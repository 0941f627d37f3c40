pub mod RunLaws
pub mod EntryLaws
pub mod BoundLaws
pub mod RecastLaws
