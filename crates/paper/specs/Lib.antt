pub mod Paper
pub mod Words
pub mod Form
pub mod Step
pub mod Machine
pub mod Order
pub mod Run
