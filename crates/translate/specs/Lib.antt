pub mod Written
pub mod Entry
pub mod Facts
