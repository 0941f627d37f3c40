pub mod Tables
pub mod Runs
pub mod Fronts
