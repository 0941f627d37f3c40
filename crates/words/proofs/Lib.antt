pub mod LevelCases
pub mod PlaceLaws
pub mod KeepLaws
