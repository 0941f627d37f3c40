pub mod Line
pub mod Said
pub mod Lines
pub mod Cursor
