pub mod Design
pub mod Kept
pub mod Facts
