pub mod Made
pub mod Entry
pub mod Facts
