pub mod Columns
pub mod Sound
pub mod Agree
pub mod Runs
