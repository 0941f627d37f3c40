pub mod Text
pub mod Plan
pub mod Reading
pub mod Drawing
pub mod Blanks
