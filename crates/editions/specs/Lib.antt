pub mod Moved
pub mod Entry
