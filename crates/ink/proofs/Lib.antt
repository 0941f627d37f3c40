pub mod InkLaws
pub mod GivenLaws
