pub mod StepLaws
pub mod LoopLaws
pub mod WriteLaws
pub mod ReadLaws
pub mod EntryLaws
pub mod RewrittenLaws
pub mod BoundLaws
