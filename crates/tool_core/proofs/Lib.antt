pub mod FaultLaws
pub mod LoadLaws
pub mod StopLaws
pub mod ExpectedLaws
