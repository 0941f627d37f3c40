pub mod Changes
pub mod Parts
pub mod Stops
pub mod Exchange
pub mod Runs
