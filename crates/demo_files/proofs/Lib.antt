pub mod IndexLemmas
pub mod NameLemmas
pub mod InstanceLaws
pub mod TimesLaws
pub mod MeasuresLaws
pub mod SizesLaws
pub mod GivenLemmas
pub mod ReadLaws
