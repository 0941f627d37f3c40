pub mod SumLaws
pub mod EntryLaws
pub mod Bounds
