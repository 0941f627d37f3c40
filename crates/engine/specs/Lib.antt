pub mod Design
pub mod Entry
pub mod Open
