pub mod CliqueLaws
pub mod GivenLaws
pub mod SearchLaws
pub mod BetterLaws
