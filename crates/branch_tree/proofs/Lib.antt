pub mod TurnLaws
pub mod StepLaws
pub mod FractionLaws
pub mod EndLaws
pub mod LogLaws
pub mod KeptLaws
pub mod NodeLaws
pub mod MeasuredLaws
