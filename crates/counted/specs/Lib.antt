pub mod Entry
pub mod Sums
