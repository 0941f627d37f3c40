pub mod SeekLaws
pub mod KeptLaws
pub mod TryLaws
pub mod EntryLaws
pub mod BoundLaws
