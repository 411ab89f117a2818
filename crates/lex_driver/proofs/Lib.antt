pub mod LevelLaws
pub mod AccountLaws
pub mod WritingLaws
pub mod SolveLaws
