pub mod NumberLaws
pub mod TextLaws
pub mod LengthLaws
pub mod PartLaws
