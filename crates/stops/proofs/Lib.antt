pub mod Wakes
pub mod Stops
