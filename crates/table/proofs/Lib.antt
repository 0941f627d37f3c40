pub mod TableLaws
pub mod RecordLaws
