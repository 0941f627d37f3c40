pub mod Entry
pub mod Cursor
pub mod Lines
