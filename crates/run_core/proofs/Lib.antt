pub mod CallLaws
pub mod EndLaws
pub mod ExpectedLaws
pub mod FileLaws
