pub mod TallyLaws
pub mod SetLaws
pub mod WordLaws
pub mod RangeLaws
