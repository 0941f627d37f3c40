pub mod Bytes
pub mod Tests
pub mod Fault
pub mod Refusals
