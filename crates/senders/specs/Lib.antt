pub mod Tally
pub mod Set
pub mod Laws
