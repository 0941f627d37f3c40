pub mod DigitLaws
pub mod NumberLaws
