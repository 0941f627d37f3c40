pub mod FaultLaws
pub mod TestLaws
pub mod RefusalLaws
