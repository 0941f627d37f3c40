pub mod PieceLaws
pub mod LineLaws
pub mod LinesLaws
pub mod LineExact
pub mod LogExact
