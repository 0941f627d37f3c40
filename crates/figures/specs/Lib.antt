pub mod Case
pub mod Outline
pub mod Drawings
pub mod Logs
pub mod Divisors
pub mod Editions
