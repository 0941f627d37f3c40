pub mod Bundle
pub mod Refusals
pub mod Facts
