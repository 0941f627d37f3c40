pub mod LeastLaws
pub mod QuotientLaws
pub mod SizeLaws
